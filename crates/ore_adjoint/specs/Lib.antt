pub mod AdjointMatrix
