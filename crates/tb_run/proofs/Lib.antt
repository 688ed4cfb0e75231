pub mod Along
pub mod Brought
pub mod Goes
pub mod Ample
