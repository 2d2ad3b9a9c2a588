mod Theorems
