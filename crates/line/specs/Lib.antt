pub mod Gauge
pub mod Serving
