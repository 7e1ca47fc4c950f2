-- Lines of a keyword and fields, and text in a buffer (document 01: fields are parted by one space and each line ends with a line feed).
-- Assumes nothing.
--   ascii s                the bytes of the characters s
--   space, line_feed       single characters
--   fields_text fs         the fields fs, a space in front of each
--   line keyword fs        the line of a keyword and fields
--   refused_word           the keyword of a refusal
--   refused_line n         the line of the refusal n
--   Printed                a printer
--   text_of p, rest_of p   the text that is printed to the front of its buffer, and the rest of the buffer
--   Behind out at p        p prints to the buffer `out`, behind its first `at` bytes
--   Blank out p            so it does, and has printed nothing
--   Put old text new       a buffer that was `old` is `new`: the text is printed behind what was there, over the front of the rest
--   PutFrom old at text new end
--                          a buffer that held `old` holds `new`: the text is written from the position `at` on, and ends at `end`
--   PutIn most old ..      the same of a text that takes at most so many bytes
--   in_room most out text  the text, if the buffer has room for so many bytes, else none
use Rattle.std.specs.Prelude.{ℕ, ◌+◌, ◌≤◌, ◌≡◌, cond, List, [], ◌∷◌, ◌++◌, length, take, drop, ltb}
use Rattle.std.specs.Borrow.{MutBor}
use Rattle.print_text.specs.declared.printer.Printer.{Printer}
use Prim.Native.Char.{code}
use Prim.Native.String.{String, [] as none, ◌∷◌ as ◌then◌}
use Rattle.print_text.specs.Decimal.{Text, decimal}

abbrev pub ascii : String → Text
ascii none = []
ascii (c then s) = code c ∷ ascii s

abbrev pub space : ℕ
space = 32

abbrev pub line_feed : ℕ
line_feed = 10

unfoldable pub fields_text : List Text → Text
fields_text [] = []
fields_text (f ∷ fs) = space ∷ f ++ fields_text fs

unfoldable pub line : Text → List Text → Text
unfolding fields_text
line keyword fs = keyword ++ fields_text fs ++ line_feed ∷ []

abbrev pub refused_word : Text
refused_word = ascii "refused"

unfoldable pub refused_line : ℕ → Text
unfolding line
refused_line n = line refused_word (decimal n ∷ [])

abbrev pub Printed : Type 0
Printed = Printer

abbrev pub text_of : Printer → Text
text_of p = take p.len p.out.now

abbrev pub rest_of : Printer → Text
rest_of p = drop p.len p.out.now

pub record Behind (out : MutBor Text) (at : ℕ) (p : Printer) : Type 0 where
  pub out_is : p.out ≡ out
  pub len_is : p.len ≡ at

abbrev pub Blank : MutBor Text → Printer → Type 0
Blank out p = Behind out 0 p

pub record Put (old : Printed) (text : Text) (new : Printed) : Type 0 where
  pub text_is : text_of new ≡ text_of old ++ text
  pub room_is : length (rest_of old) ≡ length text + length (rest_of new)
  pub rest_is : rest_of new ≡ drop (length text) (rest_of old)
  pub same_buffer : new.out.ghost_name ≡ old.out.ghost_name

pub record PutFrom (old : Text) (at : ℕ) (text new : Text) (end : ℕ) : Type 0 where
  pub end_is : end ≡ at + length text
  pub same_length : length new ≡ length old
  pub text_is : take end new ≡ take at old ++ text
  pub rest_is : drop end new ≡ drop end old

pub record PutIn (most : ℕ) (old : Printed) (text : Text) (new : Printed) : Type 0 where
  pub put : Put old text new
  pub few : length text ≤ most

abbrev pub in_room : ℕ → Text → Text → Text
in_room most out text = cond (ltb (length out) most) [] text
