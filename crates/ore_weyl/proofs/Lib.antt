pub mod Unshifted
