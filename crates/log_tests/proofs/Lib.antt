mod Flushing
