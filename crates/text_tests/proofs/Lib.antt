mod TestRun
