pub mod Canonicals
pub mod CoreTypes
pub mod Entities
pub mod Tables
pub mod TypeViews
pub mod ExternNames
