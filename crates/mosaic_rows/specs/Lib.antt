pub mod LoadedRows
pub mod EdgeLaws
pub mod LoadLaws
pub mod Around
pub mod RingRows
pub mod RingRowLaws
