pub mod SizeFile
pub mod Sizes
pub mod Asked
