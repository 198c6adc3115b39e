mod DeclaredOnly
