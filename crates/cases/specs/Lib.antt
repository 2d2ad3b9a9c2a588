pub mod Files
pub mod Said
pub mod Table
