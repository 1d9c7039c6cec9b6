pub mod DigitBounds
