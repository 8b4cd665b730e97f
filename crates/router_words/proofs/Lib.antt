mod FirstWrong
