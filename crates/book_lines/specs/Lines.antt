-- What a line says.
use Rattle.std.specs.Prelude.{ℕ, zero, suc, Bool, true, false, cond, not, ◌&&◌, List, [], ◌∷◌, ◌++◌, eqb, ltb, length, take, drop}
use Rattle.std.specs.Prelude.{Option, Some, None, option_map, option_and_then, unwrap_or, bytes_eq}
use Rattle.std.specs.List.{ends_with}
use Rattle.texts.specs.Fields.{space, line_feed, field, on_field, line, on_line, ended}
use Rattle.book.specs.declared.grants.Line.{Line}
use Rattle.book.specs.Circuits.{desk}
use Rattle.book_lines.specs.declared.lines.Command.{Command}
use Rattle.book_lines.specs.declared.lines.Command.TheVariants as command
use Rattle.book_lines.specs.declared.lines.Aside.TheVariants as aside
use Rattle.texts.specs.Bytes.{bytes}

-- the text begins with the word
abbrev pub starts : List ℕ → List ℕ → Bool
starts word text = bytes_eq (take (length word) text) word

-- one number, "closed by a line feed"
unfoldable pub single_of : List ℕ → Option ℕ
single_of text = on_field (field line_feed text) None (λ x rest. ended rest (Some x) None)

-- two numbers, "one space between"
unfoldable pub pair_of : List ℕ → Option (ℕ × ℕ)
pair_of text = on_line (line text) None (λ x y rest. ended rest (Some (x, y)) None)

-- a number at the start of a text, the crew that may stand behind it, and the text behind the byte that closes them: the number is closed by this
-- byte, or a space and a crew stand before it; without a crew it is the desk
unfoldable pub crewed_of : ℕ → List ℕ → Option (ℕ × ℕ × List ℕ)
crewed_of close text =
    on_field (field close text)
    (on_field (field space text) None (λ x behind. on_field (field close behind) None (λ crew rest. Some (x, crew, rest))))
    (λ x rest. Some (x, desk, rest))

-- a last number and its crew, "closed by a line feed"
unfoldable pub last_of : List ℕ → Option (ℕ × ℕ)
last_of text = option_and_then (λ (x, crew, rest). ended rest (Some (x, crew)) None) (crewed_of line_feed text)

-- `N W`, behind `open `
unfoldable pub open_of : List ℕ → Option Command
open_of text = option_map (λ (n, w). command.Open n w) (pair_of text)

-- the byte that closes a line of a bundle with another behind it
abbrev pub comma : ℕ
comma = 44

-- a line of a bundle at the start of a text, and the text behind the byte that closes it: `X Y WAY COLOUR CREW`, closed by this byte
unfoldable pub asked_of : ℕ → List ℕ → Option (Line × List ℕ)
asked_of close text =
    on_field (field space text) None
    (λ x second. on_field (field space second) None
    (λ y third. on_field (field space third) None
    (λ way fourth. option_map
    (λ (colour, crew, rest). (record { x = x; y = y; way = way; colour = colour; crew = crew }, rest)) (crewed_of close fourth))))

-- one such line, behind `grant `
unfoldable pub grant_of : List ℕ → Option Command
grant_of text = option_and_then (λ (l, rest). ended rest (Some (command.Grant l)) None) (asked_of line_feed text)

-- the text behind a comma: a space there may be left out
abbrev pub behind_comma : List ℕ → List ℕ
behind_comma [] = []
behind_comma (b ∷ text) = cond (eqb b space) text (b ∷ text)

-- what follows from a line and the text behind it, and what where there is none
abbrev pub on_asked : {A : Type 0} → Option (Line × List ℕ) → A → (Line → List ℕ → A) → A
on_asked None otherwise next = otherwise
on_asked (Some (l, rest)) otherwise next = next l rest

-- the lines of a bundle, so many at the most, behind those before: commas between, the line feed behind the last
abbrev pub lines_from : ℕ → List Line → List ℕ → Option (List Line)
lines_from zero before text = None
lines_from (suc most) before text =
    on_asked (asked_of line_feed text)
    (on_asked (asked_of comma text) None (λ l rest. lines_from most (before ++ (l ∷ [])) (behind_comma rest)))
    (λ l rest. ended rest (Some (before ++ (l ∷ []))) None)

-- `X Y WAY COLOUR CREW, X Y WAY COLOUR CREW, ..`, behind `preview `; a line of 1,024 bytes has room for fewer than 128 of them
unfoldable pub bundle_of : List ℕ → Option (List Line)
bundle_of text = lines_from 128 [] text

-- the lines that are tried by a line of this text
unfoldable pub lines_in : List ℕ → List Line
lines_in text = cond (starts (bytes "preview ") text) (unwrap_or (bundle_of (drop 8 text)) []) []

-- the command, if there are lines behind `preview `
unfoldable pub preview_of : List ℕ → Option Command
preview_of text = option_map (λ ls. command.Preview) (bundle_of text)

-- `SERIAL`, behind `remove `
unfoldable pub remove_of : List ℕ → Option Command
remove_of text = option_map command.Remove (single_of text)

-- `SERIAL`, behind `confirm `
unfoldable pub confirm_of : List ℕ → Option Command
confirm_of text = option_map command.Confirm (single_of text)

-- `SERIAL CREW`, behind `show `
unfoldable pub show_of : List ℕ → Option Command
show_of text = option_map (λ (serial, crew). command.Show serial crew) (last_of text)

-- `LINK COLOUR CREW`, behind `holder `
unfoldable pub holder_of : List ℕ → Option Command
holder_of text =
    on_field (field space text) None
    (λ link behind. option_map (λ (colour, crew). command.Holder link colour crew) (last_of behind))

-- what follows from the text behind a word, and what if the line does not begin with it
abbrev pub on_word : List ℕ → List ℕ → (List ℕ → Option Command) → Option Command → Option Command
on_word word text next otherwise = cond (starts word text) (next (drop (length word) text)) otherwise

-- a command with numbers behind its word
unfoldable pub command_with_numbers : List ℕ → Option Command
command_with_numbers text =
    on_word (bytes "open ") text open_of
    (on_word (bytes "grant ") text grant_of
    (on_word (bytes "remove ") text remove_of
    (on_word (bytes "confirm ") text confirm_of
    (on_word (bytes "show ") text show_of
    (on_word (bytes "holder ") text holder_of
    (on_word (bytes "preview ") text preview_of
    None))))))

-- the command of a line whose spaces are squeezed; `preview` alone tries no line, and a line that is none of these is not understood
unfoldable pub command_in : List ℕ → Command
command_in text =
    cond (bytes_eq text (bytes "\n")) (command.Aside aside.Nothing)
    (cond (bytes_eq text (bytes "count\n")) command.Count
    (cond (bytes_eq text (bytes "revision\n")) command.Revision
    (cond (bytes_eq text (bytes "list\n")) command.List
    (cond (bytes_eq text (bytes "pending\n")) command.Pending
    (cond (bytes_eq text (bytes "help\n")) (command.Aside aside.Help)
    (cond (bytes_eq text (bytes "preview\n")) command.Preview
    (unwrap_or (command_with_numbers text) (command.Aside aside.Unreadable))))))))

-- "several spaces count as one", and none at the ends of a line; `begun` says that a word came before, `apart` that spaces came since
abbrev pub squeezed_from : Bool → Bool → List ℕ → List ℕ
squeezed_from begun apart [] = []
squeezed_from begun apart (b ∷ text) =
    cond (eqb b space) (squeezed_from begun begun text)
    (cond (apart && not (eqb b line_feed)) (space ∷ b ∷ squeezed_from true false text) (b ∷ squeezed_from true false text))

-- the line with its spaces squeezed
unfoldable pub squeezed : List ℕ → List ℕ
squeezed line = squeezed_from false false line

-- the line feed that ends a line is there
unfoldable pub finished : List ℕ → Bool
finished line = ends_with eqb line (line_feed ∷ [])

-- what is heard of a line of at most 1,024 bytes
unfoldable pub heard : List ℕ → List ℕ
heard line = cond (ltb 1024 (length line)) [] (squeezed line)

-- the command of a line: a longer line, or one without its line feed, is not obeyed
unfoldable pub command_of : List ℕ → Command
command_of line =
    cond (ltb 1024 (length line)) (command.Aside aside.TooLong)
    (cond (finished line) (command_in (squeezed line)) (command.Aside aside.Unfinished))
