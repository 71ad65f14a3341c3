pub mod FirstStage
pub mod RingReads
pub mod GradientRows
pub mod TrialRows
