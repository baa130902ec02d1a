pub mod Texts
pub mod Reports
pub mod StateBytes
pub mod Hashing
pub mod Audit
