pub mod Stored
pub mod ExtensionLaws
