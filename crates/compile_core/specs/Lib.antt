pub mod Account
pub mod Schema
pub mod SchemaText
