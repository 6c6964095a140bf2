-- What a command needs of the file.
use Rattle.book_lines.specs.declared.lines.Command.{Command}
use Rattle.book_lines.specs.declared.lines.Command.TheVariants as command
use Rattle.book_text.specs.declared.obeying.Need.{Need}
use Rattle.book_text.specs.declared.obeying.Need.TheVariants.{Nothing, Reading, Writing}

-- "A question reads the file and answers", a change puts other bytes in the place of the file's, and an aside needs no file
abbrev pub need_of : Command → Need
need_of (command.Open n w) = Writing
need_of (command.Grant l) = Writing
need_of (command.Remove serial) = Writing
need_of (command.Confirm serial) = Writing
need_of (command.Aside a) = Nothing
need_of _ = Reading
