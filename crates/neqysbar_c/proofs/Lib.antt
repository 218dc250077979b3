mod Faulty
mod Splitting
