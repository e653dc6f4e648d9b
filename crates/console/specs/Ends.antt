-- The one argument, how a failure is said, and the exit status.
use Rattle.std.specs.Prelude.{ℕ, Bool, true, false, ◌&&◌, nat_eq, List, bytes_eq, if◌then◌else◌, Result, Ok, Err}
use lib.Chars.{codes}
use Rattle.std.specs.declared.env.FillError.{FillError}
use Rattle.std.specs.declared.env.FillError.TheVariants.{NotPresent, TooLong}
use Rattle.console.specs.declared.Failure.{Failure}
use Rattle.console.specs.declared.Failure.TheVariants.{Argument, Input, Output}

-- whether the first argument asks for help: `--help` does, and any other is unknown; no argument doesn't
abbrev pub asked : Result ℕ FillError → List ℕ → Result Bool Failure
asked (Ok length) buffer = if nat_eq length 6 && bytes_eq buffer (codes "--help") then Ok true else Err Argument
asked (Err NotPresent) _ = Ok false
asked (Err TooLong) _ = Err Argument

-- what standard error says of a failure, after the program's name
abbrev pub failure_text : Failure → List ℕ
failure_text Argument = codes "the only argument is --help"
failure_text Input = codes "standard input can't be read"
failure_text Output = codes "standard output can't be written"

-- the exit status for a failure
abbrev pub failure_status : Failure → ℕ
failure_status Argument = 2
failure_status Input = 1
failure_status Output = 1

-- the exit status of a program
abbrev pub status_of : {A : Type 0} → Result A Failure → ℕ
status_of (Ok _) = 0
status_of (Err failure) = failure_status failure
