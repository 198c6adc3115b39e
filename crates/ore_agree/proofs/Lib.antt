mod TestRing
