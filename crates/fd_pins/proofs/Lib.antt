pub mod ScanSteps
