pub mod GroupReading
