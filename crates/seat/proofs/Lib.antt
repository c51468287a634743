mod Locking
