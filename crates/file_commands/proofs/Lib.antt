mod FileLaws
mod FileReads
