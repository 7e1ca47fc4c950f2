-- What the operation promises, by which refusal comes first: the sheet's, 18, or 20. An accepted sheet gives a sound network, so that the
-- figure is the weight needed where there is one, and 20 stands for the two cases in which there is none.
-- Assumes nothing.
use Prim.Native.Nat.{ℕ, ◌-◌, ◌≤◌, ◌<◌}
use mathlib.Core.Path.{◌≡◌, refl, sym, ap, ◌∙◌, subst}
use mathlib.Core.Logic.{◌⊎◌, ◌↔◌}
use mathlib.Core.Bool.{Bool, true, false}
use mathlib.Core.List.{[]}
use native.Mathlib.Decide.{dec_lt}
use native.Mathlib.Omega.{arith}
use borrow.Author.Tests.{lt-ltb, le-ltb, le-leb, lt-leb}
use Rattle.cuts.specs.Network.{Network, link_count}
use Rattle.cuts.specs.Tree.{Sound}
use Rattle.sheet.specs.Bytes.{Bytes}
use Rattle.sheet.specs.Reading.{first_failing, Reading, accepted, refused, number_of, and_then}
use Rattle.sheet.specs.Sheet.{Format, current, decode}
use Rattle.sheet.proofs.ReadingLaws.{and_then-zero}
use Rattle.sheet.proofs.Acceptance.{decode-zero, decode-accepted}
use Rattle.sheet.proofs.Plain.{cut_off, plain}
use Rattle.sheet.proofs.PlainLaws.{plain-same}
use Rattle.thickness.specs.Thickness.{most_weight, weight_with, Needed, TooLight, TooThick, out_of_reach, missing}
use Rattle.thickness.specs.ThicknessTold.{thickness_of, thickness_reading, figure_left, ThicknessTold}
use Rattle.thickness.proofs.ThicknessLaws.{missing_is, enough_without, out_of_reach_is}

-- ---- which refusal comes first

module _ (f : Format) (k wanted : ℕ) (net : Network) (rest : Bytes) where
  pub thickness_of-outside : link_count net ≤ k → thickness_of f k wanted net rest ≡ refused 18
  unfolding thickness_of first_failing
  thickness_of-outside l = rw (le-leb (link_count net) k l)

  module _ (is_link : k < link_count net) where
    pub thickness_of-beyond : out_of_reach f.rules.key net k wanted ≡ true → thickness_of f k wanted net rest ≡ refused 20
    unfolding thickness_of first_failing
    thickness_of-beyond h = rw (lt-leb (link_count net) k is_link, h)

    pub thickness_of-figure : out_of_reach f.rules.key net k wanted ≡ false → thickness_of f k wanted net rest ≡ accepted (missing f.rules.key net k wanted) rest
    unfolding thickness_of first_failing
    thickness_of-figure h = rw (lt-leb (link_count net) k is_link, h)

    -- the same from the reported weights with the link at 0 and at the largest weight; where the first is enough the second is not needed
    pub thickness_of-without : Sound net → wanted ≤ weight_with f.rules.key net k 0 → thickness_of f k wanted net rest ≡ accepted 0 rest
    thickness_of-without v l =
        let e = enough_without f.rules.key net v k is_link wanted l in
        thickness_of-figure e.0 ∙ ap (λ (x : ℕ). accepted x rest) e.1

    pub thickness_of-above : weight_with f.rules.key net k most_weight < wanted → thickness_of f k wanted net rest ≡ refused 20
    unfolding out_of_reach
    thickness_of-above l = thickness_of-beyond (lt-ltb (weight_with f.rules.key net k most_weight) wanted l)

    pub thickness_of-within : wanted ≤ weight_with f.rules.key net k most_weight → thickness_of f k wanted net rest ≡ accepted (wanted - weight_with f.rules.key net k 0) rest
    unfolding out_of_reach missing
    thickness_of-within l = thickness_of-figure (le-ltb (weight_with f.rules.key net k most_weight) wanted l)

module _ (f : Format) (sheet : Bytes) (k wanted : ℕ) where
  pub thickness_reading-refused : (n : ℕ) → decode f sheet ≡ refused n → thickness_reading f sheet k wanted ≡ refused n
  unfolding thickness_reading
  thickness_reading-refused n e = ap (λ (r : Reading Network). and_then r (thickness_of f k wanted)) e

  pub thickness_reading-accepted : (net : Network) (rest : Bytes) → decode f sheet ≡ accepted net rest → thickness_reading f sheet k wanted ≡ thickness_of f k wanted net rest
  unfolding thickness_reading
  thickness_reading-accepted net rest e = ap (λ (r : Reading Network). and_then r (thickness_of f k wanted)) e

  -- number 0: the sheet was accepted, the link is one of its links, and there is a weight
  read-figure : number_of (thickness_reading f sheet k wanted) ≡ 0 → (net : Network) × (decode f sheet ≡ accepted net []) × (k < link_count net)
      × (out_of_reach f.rules.key net k wanted ≡ false)
  unfolding thickness_reading
  read-figure z =
      let d = decode-zero f sheet (and_then-zero (decode f sheet) (thickness_of f k wanted) z) in
      let e = sym (ap number_of (thickness_reading-accepted d.0 [] d.1)) ∙ z in
      let b = inside d.0 e (dec_lt k (link_count d.0)) in
      (d.0, d.1, b, some d.0 e b (out_of_reach f.rules.key d.0 k wanted) refl)
    where
      inside : (net : Network) → number_of (thickness_of f k wanted net []) ≡ 0 → Dec (k < link_count net) → k < link_count net
      inside net e (yes b) = b
      inside net e (no b) = let q = sym (ap number_of (thickness_of-outside f k wanted net [] (omega arith))) ∙ e in absurd (omega arith)

      some : (net : Network) → number_of (thickness_of f k wanted net []) ≡ 0 → k < link_count net → (c : Bool) → out_of_reach f.rules.key net k wanted ≡ c → c ≡ false
      some net e b false h = refl
      some net e b true h = let q = sym (ap number_of (thickness_of-beyond f k wanted net [] b h)) ∙ e in absurd (omega arith)

  -- ---- the promise

  -- a number and a figure that are those of the reading are all that is promised
  pub thickness_told : {x n : ℕ} → n ≡ number_of (thickness_reading f sheet k wanted) → x ≡ figure_left (thickness_reading f sheet k wanted) → ThicknessTold f sheet k wanted x n
  thickness_told {x} {n} p q = record { number = p; figure_is = q; needed = needed; none = none }
    where
      needed : n ≡ 0 → (net : Network) × (decode f sheet ≡ accepted net []) × (k < link_count net) × Needed f.rules.key net k wanted x × (x ≤ most_weight)
      needed z =
          let r = read-figure (sym p ∙ z) in
          let net = r.0 in
          let v = (decode-accepted f sheet net [] r.1).sound in
          let e : x ≡ missing f.rules.key net k wanted =
          q ∙ ap figure_left (thickness_reading-accepted net [] r.1 ∙ thickness_of-figure f k wanted net [] r.2 r.3) in
          let a = missing_is f.rules.key net v k r.2 wanted r.3 in
          (net, r.1, r.2, subst (Needed f.rules.key net k wanted) (sym e) a.0, rw e a.1)

      none : (net : Network) → decode f sheet ≡ accepted net [] → k < link_count net → (n ≡ 20) ↔ (TooLight net k wanted ⊎ TooThick f.rules.key net k wanted)
      none net e b =
          let v = (decode-accepted f sheet net [] e).sound in
          let l = out_of_reach_is f.rules.key net v k b wanted in
          (λ z. l.0 (lacks (out_of_reach f.rules.key net k wanted) refl z), λ c. told ∙ ap number_of (thickness_of-beyond f k wanted net [] b (l.1 c)))
        where
          told : n ≡ number_of (thickness_of f k wanted net [])
          told = p ∙ ap number_of (thickness_reading-accepted net [] e)

          lacks : (c : Bool) → out_of_reach f.rules.key net k wanted ≡ c → n ≡ 20 → c ≡ true
          lacks true h z = refl
          lacks false h z = let r = told ∙ ap number_of (thickness_of-figure f k wanted net [] b h) in absurd (omega arith)

-- ---- sheets that give the same network or the same refusal get the same answer

module _ (k wanted : ℕ) {x n : ℕ} where
  pub told-read : (f : Format) (sheet sheet' : Bytes) → decode f sheet ≡ decode f sheet' → ThicknessTold f sheet k wanted x n → ThicknessTold f sheet' k wanted x n
  unfolding thickness_reading
  told-read f sheet sheet' same w =
      let e : thickness_reading f sheet k wanted ≡ thickness_reading f sheet' k wanted = ap (λ (r : Reading Network). and_then r (thickness_of f k wanted)) same in
      thickness_told f sheet' k wanted (w.number ∙ ap number_of e) (w.figure_is ∙ ap figure_left e)

  -- F-9: "and with it every other operation, steps over a whole trunk number and answers as if the bit and field were not there"
  pub told-plain : (sheet : Bytes) → cut_off sheet ≡ false → ThicknessTold current (plain sheet) k wanted x n → ThicknessTold current sheet k wanted x n
  told-plain sheet whole = told-read current (plain sheet) sheet (plain-same sheet whole)
