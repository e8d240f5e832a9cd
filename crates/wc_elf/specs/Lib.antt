pub mod Entries
pub mod Readings
pub mod Strings
pub mod SymbolTables
