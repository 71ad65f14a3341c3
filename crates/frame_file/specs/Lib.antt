pub mod Lists
pub mod FrameFile
