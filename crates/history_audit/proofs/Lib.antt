mod Courses
mod Said
mod Told
mod Verdicts
