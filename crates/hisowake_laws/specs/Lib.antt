pub mod AsCalls
