mod Overwriting
