pub mod Lines
pub mod Outcomes
pub mod Trials
pub mod FrameTrials
