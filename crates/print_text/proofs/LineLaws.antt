-- Text that is printed behind other text is the two printed as one. So fields behind fields are all of them, and a keyword, fields and a line
-- feed are a line. Assumes nothing.
use Prim.Native.Nat.{ℕ, ◌+◌, ◌≤◌, ◌<◌}
use native.Mathlib.Numerals.{add-one}
use native.Mathlib.Omega.{arith}
use mathlib.Core.Path.{◌≡◌, refl, sym, ap, ap₂, ◌∙◌, subst}
use mathlib.Core.List.{List, [], ◌∷◌, ◌++◌, append-nil, append_assoc}
use lib.ListN.{length, length-append, length-set, set, take, drop}
use lib.Seq.{drop-drop, drop-set-lt, take-suc, take-set-le, get_or-set_same}
use Rattle.print_text.specs.Decimal.{Text}
use Rattle.print_text.specs.Line.{space, line_feed, fields_text, line, Printed, text_of, rest_of, Put, PutFrom, PutIn}

pub put-put : {old mid new : Printed} {a b : Text} → Put old a mid → Put mid b new → Put old (a ++ b) new
put-put {old} {mid} {new} {a} {b} h k = record {
  text_is = k.text_is ∙ ap (λ (t : Text). t ++ b) h.text_is ∙ append_assoc (text_of old) a b;
  room_is = omega (arith, h.room_is, k.room_is, length-append a b);
  rest_is = k.rest_is ∙ ap (drop (length b)) h.rest_is ∙ drop-drop (length b) (length a) (rest_of old) ∙ sym (ap (λ (n : ℕ). drop n (rest_of old)) (length-append a b));
  same_buffer = k.same_buffer ∙ h.same_buffer;
}

-- text that is written from a position on, and one more byte behind it
pub put_from-byte : {old mid text : Text} {at end : ℕ} (byte : ℕ) → PutFrom old at text mid end → end < length mid → PutFrom old at (text ++ byte ∷ []) (set mid end byte) (end + 1)
put_from-byte {old} {mid} {text} {at} {end} byte h b =
    let s : Text = set mid end byte in
    record {
      end_is = omega (arith, h.end_is, length-append text (byte ∷ []));
      same_length = length-set mid end byte ∙ h.same_length;
      text_is =
          ap (λ (n : ℕ). take n s) (add-one end) ∙ take-suc s end 0 (rw (length-set mid end byte) b)
          ∙ ap₂ (λ (front : Text) (last : ℕ). front ++ last ∷ []) (take-set-le end mid end byte (omega arith) ∙ h.text_is) (get_or-set_same mid end byte 0 b)
          ∙ append_assoc (take at old) text (byte ∷ []);
      rest_is =
          drop-set-lt (end + 1) mid end byte (omega arith) ∙ sym (drop-drop 1 end mid) ∙ ap (drop 1) h.rest_is ∙ drop-drop 1 end old;
    }

pub put_from-nothing : (old : Text) (at : ℕ) → PutFrom old at [] old at
put_from-nothing old at = record { end_is = omega arith; same_length = refl; text_is = sym (append-nil (take at old)); rest_is = refl }

pub put-nothing : (old : Printed) → Put old [] old
put-nothing old = record { text_is = sym (append-nil (text_of old)); room_is = omega arith; rest_is = refl; same_buffer = refl }

fields_text-append : (fs gs : List Text) → fields_text (fs ++ gs) ≡ fields_text fs ++ fields_text gs
unfolding fields_text
fields_text-append [] gs = refl
fields_text-append (f ∷ fs) gs = ap (λ (t : Text). space ∷ f ++ t) (fields_text-append fs gs) ∙ ap (λ (t : Text). space ∷ t) (sym (append_assoc f (fields_text fs) (fields_text gs)))

-- fields that are printed: none, one in front of others, and one behind others

pub record PutFields (old : Printed) (fs : List Text) (new : Printed) : Type 0 where
  pub put : Put old (fields_text fs) new

pub put-none : (old : Printed) → PutFields old [] old
unfolding fields_text
put-none old = record { put = put-nothing old }

pub put-first : {old mid new : Printed} {f : Text} {fs : List Text} → Put old (space ∷ f) mid → PutFields mid fs new → PutFields old (f ∷ fs) new
unfolding fields_text
put-first h k = record { put = put-put h k.put }

pub put-more : {old mid new : Printed} (fs : List Text) {f : Text} {few most : ℕ} → PutIn few old (fields_text fs) mid → Put mid (space ∷ f) new → few + 1 + length f ≤ most → PutIn most old (fields_text (fs ++ f ∷ [])) new
unfolding fields_text
put-more {old} {mid} {new} fs {f} {few} {most} h k e =
    subst (λ (t : Text). PutIn most old t new)
    (sym (fields_text-append fs (f ∷ []) ∙ ap (λ (t : Text). fields_text fs ++ space ∷ t) (append-nil f)))
    (record { put = put-put h.put k; few = omega (arith, h.few, length-append (fields_text fs) (space ∷ f)) })

pub put-fields : {old mid new : Printed} (fs gs : List Text) → Put old (fields_text fs) mid → Put mid (fields_text gs) new → Put old (fields_text (fs ++ gs)) new
put-fields {old} {new = new} fs gs h k = subst (λ (t : Text). Put old t new) (sym (fields_text-append fs gs)) (put-put h k)

-- how many bytes the fields take
abbrev pub fields_length : List Text → ℕ
fields_length [] = 0
fields_length (f ∷ fs) = 1 + length f + fields_length fs

pub fields_text-length : (fs : List Text) → length (fields_text fs) ≡ fields_length fs
unfolding fields_text
fields_text-length [] = refl
fields_text-length (f ∷ fs) = omega (arith, length-append f (fields_text fs), fields_text-length fs)

line-length : (keyword : Text) (fs : List Text) → length (line keyword fs) ≡ length keyword + fields_length fs + 1
unfolding line
line-length keyword fs =
    length-append (keyword ++ fields_text fs) (line_feed ∷ []) ∙ omega (arith, length-append keyword (fields_text fs), fields_text-length fs)

pub put-line : {old named filled new : Printed} {keyword : Text} {fs : List Text} {most : ℕ} → Put old keyword named → PutFields named fs filled → Put filled (line_feed ∷ []) new → length keyword + fields_length fs + 1 ≤ most → PutIn most old (line keyword fs) new
unfolding line
put-line {keyword = keyword} {fs} h k l few = record { put = put-put (put-put h k.put) l; few = omega (arith, line-length keyword fs) }

-- a text and one behind it
pub put_both : {old mid new : Printed} {a b : Text} {few more most : ℕ} → PutIn few old a mid → PutIn more mid b new → few + more ≤ most → PutIn most old (a ++ b) new
put_both {a = a} {b} h k e = record { put = put-put h.put k.put; few = omega (arith, h.few, k.few, length-append a b) }

-- the same text by another name, with a higher bound
pub put_in : {old new : Printed} {text out : Text} {few most : ℕ} → PutIn few old text new → text ≡ out → few ≤ most → PutIn most old out new
put_in {old} {new} h e m = record {
  put = subst (λ (t : Text). Put old t new) e h.put;
  few = let f = h.few in omega (arith, ap (λ (t : Text). length t) e);
}
