pub mod Findings
pub mod Places
