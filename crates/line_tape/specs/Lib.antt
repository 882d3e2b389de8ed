pub mod Taping
