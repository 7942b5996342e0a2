mod Good
mod Printed
