mod NewTsnsHeld
