mod Left
pub mod ReadSo
