-- What is written to the two areas is read back: where the report has room for the weight of every side, the answer of an accepted
-- sheet fits its fields and its side the 32 bytes, so that what stands in the areas afterwards is that answer, and all that is owed
-- of the answer is owed of those bytes.
-- Assumes nothing.
use Prim.Native.Nat.{ℕ, ◌+◌, ◌*◌, ◌^◌, ◌≤◌, ◌<◌}
use mathlib.Core.List.{[], ◌∷◌}
use mathlib.Core.Path.{◌≡◌, refl, sym, ap, ap₂, ◌∙◌}
use mathlib.Core.Bool.{Bool, true, false, cond}
use native.Mathlib.Nat.{mul-le-mul_right}
use native.Mathlib.Omega.{arith}
use lib.ListN.{length, get_or, drop, length-append}
use lib.Seq.{ext_get_or, drop-drop}
use lib.Dec.{eqb}
use borrow.Author.Tests.{ne_eqb}
use Rattle.cuts.specs.Sums.{table}
use Rattle.cuts.specs.Network.{Network, flag, tree_at}
use Rattle.cuts.specs.Cut.{Side, cut_weight}
use Rattle.cuts.specs.Candidate.{Handle, Fits, one, two}
use Rattle.cuts.specs.Answer.{Answer, judged, answer}
use Rattle.cuts.specs.Demands.{Owed}
use Rattle.cuts.proofs.SumLaws.{table-length, table_at}
use Rattle.cuts.proofs.CutLaws.{cut_weight-most}
use Rattle.cuts.proofs.LimitLaws.{side-most}
use Rattle.cuts.proofs.Demands.{answer_demand2, answer_demand3, answer_owed}
use Rattle.sheet.specs.Bytes.{Bytes, ByteSized, number, fields, field_bytes, map_bit}
use Rattle.sheet.specs.Reading.{accepted}
use Rattle.sheet.specs.Sheet.{Format, Accepted, base, current, decode}
use Rattle.sheet.specs.Areas.{side_bytes, report_widths, report_length, report_fields, report_bytes, no_second, first_link, second_link, written, side_after, report_after, side_read, handle_of, answer_of, answer_read}
use Rattle.sheet.proofs.Acceptance.{decode-accepted}
use Rattle.sheet.proofs.ByteLaws.{bytes_of-length, number-one, Fitting, fields-field_bytes, map_bit-table}
use Rattle.sheet.proofs.Sizes.{decode-light}

pub side_bytes-length : (s : Side) → length (side_bytes s) ≡ 32
unfolding side_bytes
side_bytes-length s = refl

pub report_bytes-length : (f : Format) (a : Answer) → length (report_bytes f a) ≡ report_length f
unfolding report_bytes field_bytes
report_bytes-length f a = simp (length-append, bytes_of-length) (omega arith)

-- ---- the side

pub side_read-written : (nodes : ℕ) (s : Side) (old : Bytes) → length s ≡ nodes → nodes ≤ 256 → side_read nodes (written (side_bytes s) old) ≡ s
unfolding side_read side_bytes
side_read-written nodes s old e m =
    ext_get_or false (table nodes (map_bit (written (side_bytes s) old))) s (table-length nodes _ ∙ sym e)
    (λ k b. let c : k < nodes = rw (table-length nodes (map_bit (written (side_bytes s) old))) at b in
    table_at false nodes (map_bit (written (side_bytes s) old)) k c ∙ map_bit-table 32 (flag s) (drop 32 old) k (omega arith))

-- ---- the report

-- the handle's links are below m
abbrev LinksBelow : ℕ → Handle → Type 0
LinksBelow m (one e) = e < m
LinksBelow m (two e f) = (e < m) × (f < m)

-- a handle made of two numbers, by whether the second stands for a link
pub first_link-cond : (b : Bool) (e f : ℕ) → first_link (cond b (one e) (two e f)) ≡ e
first_link-cond true e f = refl
first_link-cond false e f = refl

handle_of-links : (h : Handle) → LinksBelow no_second h → handle_of (first_link h) (second_link h) ≡ h
handle_of-links (one e) b = refl
handle_of-links (two e f) b = rw (ne_eqb f no_second (λ q. let l = b.1 in omega arith))

pub answer_read-written : (f : Format) (nodes : ℕ) (a : Answer) (side report : Bytes) → length a.best.side ≡ nodes → nodes ≤ 256 → LinksBelow no_second a.best.handle
    → Fitting (report_widths f) (report_fields a) → answer_read f nodes (written (side_bytes a.best.side) side) (written (report_bytes f a) report) ≡ a
unfolding answer_read report_bytes
answer_read-written f nodes a side report e m l fit =
    ap₂ answer_of (fields-field_bytes (report_widths f) (report_fields a) (drop (length (report_bytes f a)) report) fit) (side_read-written nodes a.best.side side e m)
    ∙ ap (λ (h : Handle). answer_with h) (handle_of-links a.best.handle l)
  where
    answer_with : Handle → Answer
    answer_with h = record {
      best = record { tree = a.best.tree; handle = h; weight = a.best.weight; count = a.best.count; side = a.best.side };
      floor = a.floor;
      verdict = a.verdict;
    }

pub fields-report_widths : (f : Format) (bs : Bytes) → fields (report_widths f) bs
    ≡ get_or bs 0 0 ∷ get_or bs 1 0 ∷ number 2 (drop 2 bs) ∷ number 2 (drop 4 bs) ∷ number 2 (drop 6 bs) ∷ number f.sum_width (drop 8 bs) ∷ number f.sum_width (drop (8 + f.sum_width) bs) ∷ []
unfolding fields
fields-report_widths f bs =
    rw (drop-drop 1 1 bs, drop-drop 2 2 bs, drop-drop 2 4 bs, drop-drop 2 6 bs, drop-drop f.sum_width 8 bs, number-one 0 bs, number-one 1 bs)

-- ---- the answer of an accepted sheet

module _ {f : Format} (net : Network) (v : Accepted f net) where
  abbrev given : Answer
  given = answer f.rules net

  links-below : (h : Handle) → Fits net (tree_at net given.best.tree) h → LinksBelow no_second h
  links-below (one e) m = let b = m.is_link in let c = v.links_most in omega arith
  links-below (two e f) m = let b = m.1.is_link in let d = m.2.is_link in let c = v.links_most in (omega arith, omega arith)

  links-small : (h : Handle) → LinksBelow no_second h → (first_link h < 65536) × (second_link h < 65536)
  links-small (one e) b = (omega arith, omega arith)
  links-small (two e f) b = (omega arith, omega arith)

  verdict-most : given.verdict ≤ 2
  unfolding answer judged
  verdict-most = step (eqb given.floor given.best.weight)
    where
      step : (b : Bool) → ◌≤◌ (cond b 2 1) 2
      step true = omega arith
      step false = omega arith

  -- no cut weighs more than 2,048 links of the largest weight
  sides-most : (s : Side) → cut_weight net s ≤ 2048 * f.weight_limit
  sides-most s =
      let a = cut_weight-most net f.weight_limit v.weights_most s in
      let b = mul-le-mul_right f.weight_limit v.links_most in
      omega arith

  -- where the report has bytes enough for the weight of every side
  module _ (fits : (s : Side) → cut_weight net s < 256 ^ f.sum_width) where
    answer-fitting : Fitting (report_widths f) (report_fields given)
    answer-fitting =
        let d2 = answer_demand2 net v.sound f.rules in
        let d3 = answer_demand3 net v.sound f.rules in
        let n = v.nodes_most in
        let m = v.links_most in
        let t = v.trees_most in
        let tree = d2.tree_listed in
        let count = d2.count_is in
        let full = d3.proper.not_full in
        let links = links-small given.best.handle (links-below given.best.handle d2.links_fit) in
        let weight = d3.own_weight in
        let most = fits given.best.side in
        let bound = d3.floor_bounds given.best.side d3.proper in
        let verdict = verdict-most in
        (omega arith, (omega arith, (omega arith, (links.0, (links.1, (omega arith, (omega arith, tt)))))))

    -- what stands in the areas afterwards is the answer
    pub answer_back : (side report : Bytes) → answer_read f net.nodes (side_after f net side) (report_after f net report) ≡ answer f.rules net
    unfolding answer judged
    answer_back side report =
        let d2 = answer_demand2 net v.sound f.rules in
        answer_read-written f net.nodes given side report (answer_demand3 net v.sound f.rules).proper.sized v.nodes_most
        (links-below given.best.handle d2.links_fit) answer-fitting

    -- and what is owed of the answer is owed of what stands there
    pub areas_owed : (side report : Bytes) → Owed f.rules net (answer_read f net.nodes (side_after f net side) (report_after f net report))
    areas_owed side report = rw (answer_back side report) (answer_owed net v.sound f.rules)

-- ---- from the bytes of the sheet to the bytes of the areas

-- in the format in force, whose report has room for sums of weights of four bytes
module _ (sheet : Bytes) (bytes : ByteSized sheet) (net : Network) (rest : Bytes) (e : decode current sheet ≡ accepted net rest) (side report : Bytes) where
  weights-fit : (s : Side) → cut_weight net s < 256 ^ current.sum_width
  weights-fit s = let m = side-most net (decode-light current refl sheet bytes net rest e).0 s in omega arith

  pub sheet-back : answer_read current net.nodes (side_after current net side) (report_after current net report) ≡ answer current.rules net
  sheet-back = answer_back net (decode-accepted current sheet net rest e) weights-fit side report

  pub sheet-owed : Owed current.rules net (answer_read current net.nodes (side_after current net side) (report_after current net report))
  sheet-owed = areas_owed net (decode-accepted current sheet net rest e) weights-fit side report

-- in document 01's format four bytes are enough, by the largest weight
module _ (sheet : Bytes) (net : Network) (rest side report : Bytes) where
  pub sold-owed : decode base sheet ≡ accepted net rest → Owed base.rules net (answer_read base net.nodes (side_after base net side) (report_after base net report))
  sold-owed e =
      let v = decode-accepted base sheet net rest e in
      areas_owed net v (λ s. let m = sides-most net v s in omega arith) side report
