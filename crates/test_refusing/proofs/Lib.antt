mod Asking
mod Inside
