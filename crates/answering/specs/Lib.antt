pub mod Streamed
