-- Payloads, blocks and chains as the rules speak of them.
pub mod Payloads
pub mod Blocks
pub mod Chains
