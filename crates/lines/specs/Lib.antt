-- Lines of hexadecimal digits: what is read of them, and what is written.
pub mod Lines
pub mod Output
pub mod Reading
pub mod Writing
