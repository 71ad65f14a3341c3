pub mod ToneCurve
