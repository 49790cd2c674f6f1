mod Objects
