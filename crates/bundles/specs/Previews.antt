-- Trying grants before making them.
use Rattle.std.specs.Prelude.{ℕ, ◌+◌, ◌-◌, ◌≤◌, ◌<◌, ◌≡◌, ◌||◌, List, [], ◌∷◌, ◌++◌, ◌⊎◌, eqb, ltb, length, take, get_or, replicate, Option}
use Rattle.std.specs.Prelude.{Some, None, Result, Ok, Err}
use Rattle.ring.specs.declared.refusals.Refusal.{Refusal}
use Rattle.ring.specs.declared.refusals.Refusal.TheVariants.{LineCount}
use Rattle.ring.specs.Refusals.{Verdict, number_of, refuse_if}
use Rattle.ring.specs.Answers.{InNumbers, gives, refuses}
use Rattle.book.specs.declared.books.Book.{Book}
use Rattle.book.specs.declared.grants.Line.{Line}
use Rattle.bundles.specs.declared.previews.Previewed.{Previewed}
use Rattle.book.specs.Books.{Valid}
use Rattle.book.specs.Grants.{Granted, argument_verdict, granted}

-- line i of a list; a number past the list has no meaning, and gets a line of zeros
abbrev pub line : List Line → ℕ → Line
line ls i = get_or ls i (record { x = 0; y = 0; way = 0; colour = 0; crew = 0 })

-- the grant that a line asks for
abbrev pub granted_line : Book → Line → Granted
granted_line b l = granted b l.x l.y l.way l.colour l.crew

-- "the same grants .. on a copy of the book, one after another": the copy behind these lines
abbrev pub after_lines : Book → List Line → Book
after_lines b [] = b
after_lines b (l ∷ ls) = after_lines (granted_line b l).book ls

-- the serial that a line gets stands before those of later lines; a line that is turned down gets none, and ends them
abbrev pub serial_then : Result ℕ Refusal → List ℕ → List ℕ
serial_then (Ok serial) later = serial ∷ later
serial_then (Err r) later = []

-- "the serials they would get, up to the first line .. that would be turned down"
abbrev pub serials_for : Book → List Line → List ℕ
serials_for b [] = []
serials_for b (l ∷ ls) = serial_then (granted_line b l).answer (serials_for (granted_line b l).book ls)

-- a line that is turned down, of this number, or else what comes of the later lines
abbrev pub stop_then : ℕ → Result ℕ Refusal → Option (ℕ × Refusal) → Option (ℕ × Refusal)
stop_then i (Ok serial) later = later
stop_then i (Err r) later = Some (i, r)

-- "the first line, counted from 0, that would be turned down, .. shown with its refusal number"; here the lines are numbered from i on
abbrev pub stop_from : ℕ → Book → List Line → Option (ℕ × Refusal)
stop_from i b [] = None
stop_from i b (l ∷ ls) = stop_then i (granted_line b l).answer (stop_from (i + 1) (granted_line b l).book ls)

-- 16 entries: the serials, and zeros behind them
abbrev pub entries : List ℕ → List ℕ
entries serials = serials ++ replicate (16 - length serials) 0

-- "22 no line or more than 16"
unfoldable pub size_verdict : ℕ → Verdict
size_verdict count = refuse_if (eqb count 0 || ltb 16 count) LineCount

-- a refusal "before any line is looked at", or what the lines come to
abbrev pub preview_unless : Verdict → Book → List Line → Result Previewed Refusal
preview_unless (Ok allowed) b ls =
    Ok (record { stopped = stop_from 0 b ls; count = length (serials_for b ls); serials = entries (serials_for b ls) })
preview_unless (Err r) b ls = Err r

-- "It lists 1 to 16 grants .. and sees the serials": what it sees of so many of these lines
unfoldable pub previewed : Book → ℕ → List Line → Result Previewed Refusal
previewed b count ls = preview_unless (size_verdict count) b (take count ls)

-- what it sees of all lines of a list
abbrev pub previewed_all : Book → List Line → Result Previewed Refusal
previewed_all b ls = previewed b (length ls) ls

-- the serials alone
abbrev pub serials_of : Previewed → List ℕ
serials_of p = take p.count p.serials

-- the promise of preview. 22, and the grounds that lie in the arguments of the first line, are those of any value of the book's struct; all
-- else of the books that the rules speak of, as in `GrantPromise`
pub record PreviewPromise (b : Book) (count : ℕ) (ls : List Line) (result : Result Previewed Refusal) : Type 0 where
  pub size : (r : Refusal) → size_verdict count ≡ Err r → result ≡ Err r
  pub arguments : (r : Refusal) → size_verdict count ≡ Ok tt
      → argument_verdict b.n b.w (line ls 0).x (line ls 0).y (line ls 0).way (line ls 0).colour (line ls 0).crew
      ≡ Err r
      → result ≡ Ok (record { stopped = Some (0, r); count = 0; serials = entries [] })
  pub valid : Valid b → result ≡ previewed b count ls

-- what a preview of lines says of the grants "on a copy of the book, one after another"
pub record Says (b : Book) (ls : List Line) (p : Previewed) : Type 0 where
  -- each line before the stop is answered by its serial, on the copy behind the lines before it
  pub serials : (i : ℕ) → i < p.count → (granted_line (after_lines b (take i ls)) (line ls i)).answer ≡ Ok (get_or p.serials i 0)
  -- the line that is named is the one behind them, and is answered by the refusal
  pub stop : (i : ℕ) (r : Refusal) → p.stopped ≡ Some (i, r)
      → (i ≡ p.count) × ((i < length ls) × ((granted_line (after_lines b (take i ls)) (line ls i)).answer ≡ Err r))
  -- without one, every line has its serial
  pub all : p.stopped ≡ None → p.count ≡ length ls
  -- entries behind the serials stay 0
  pub behind : (i : ℕ) → p.count ≤ i → get_or p.serials i 0 ≡ 0

-- the promise that "the preview says just what the same grants would say", or 22 if there is "no line or more than 16"
pub record PreviewSays : Type 0 where
  pub lines : (b : Book) (count : ℕ) (ls : List Line) → 1 ≤ count → count ≤ 16
      → (p : Previewed) × (previewed b count ls ≡ Ok p) × Says b (take count ls) p
  pub size : (b : Book) (count : ℕ) (ls : List Line) → (count ≡ 0) ⊎ (16 < count) → previewed b count ls ≡ Err LineCount

-- in numbers: how many serials there are, the line that is turned down and its refusal's number, or 65,535 and 0, and the serials
abbrev pub preview_numbers : Option (ℕ × Refusal) → ℕ → List ℕ → InNumbers
preview_numbers None count serials = gives (count ∷ 65535 ∷ 0 ∷ serials)
preview_numbers (Some (i, r)) count serials = gives (count ∷ i ∷ number_of r ∷ serials)

-- the numbers of a preview
abbrev pub preview_in_numbers : Result Previewed Refusal → InNumbers
preview_in_numbers (Ok p) = preview_numbers p.stopped p.count (serials_of p)
preview_in_numbers (Err r) = refuses r
