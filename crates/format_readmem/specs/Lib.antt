pub mod Readmem
