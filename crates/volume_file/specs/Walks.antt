-- Code-facing definitions, that private contracts cite.
pub mod Sectors
