pub mod Pictures
pub mod Contents
pub mod Serving
pub mod Asking
pub mod Told
