mod LineLemmas
mod WordLemmas
mod ReadLemmas
mod FrameLemmas
mod SizeLemmas
mod DeclarationLemmas
mod RowLemmas
mod ProblemLemmas
mod PrintLemmas
mod AcceptedLines
mod AcceptedWords
pub mod AcceptedDeclarations
mod AcceptedRows
pub mod AcceptedReads
pub mod FrontReads
mod LineMachine
mod MachineReads
pub mod FaultyTexts
mod AgainBytes
mod AgainLines
mod AgainEntries
mod AgainDeclarations
mod AgainReads
