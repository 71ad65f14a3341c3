pub mod OneCurve
