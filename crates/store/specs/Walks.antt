-- Code-facing definitions, that private contracts cite. The laws that tie them to the rules are in proofs/Walks/.
pub mod Addresses
pub mod Forms
pub mod Loads
pub mod Puts
pub mod Targets
