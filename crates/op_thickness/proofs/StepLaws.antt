-- The steps of the operation, of a network that was read: the link is refused, weight 0 is enough, the wanted weight is out of reach, or what is
-- missing at weight 0 is the figure. And of a sheet: it is refused, or the network decides.
-- Assumes nothing.
use Prim.Native.Nat.{ℕ, ◌-◌, ◌≤◌, ◌<◌}
use mathlib.Core.Path.{◌≡◌, refl, sym, ap, ◌∙◌}
use mathlib.Core.List.{List, []}
use native.Mathlib.Omega.{arith}
use lib.ListN.{set}
use lib.Seq.{set-set}
use Rattle.cuts.specs.Network.{Network, link_count}
use Rattle.cuts.specs.Limits.{most_links}
use Rattle.cuts.specs.Candidate.{fewer_nodes}
use Rattle.cuts.specs.Answer.{reported}
use Rattle.sheet.specs.Bytes.{Bytes}
use Rattle.sheet.specs.Reading.{Reading, accepted, refused, number_of}
use Rattle.sheet.specs.Sheet.{current, decode}
use Rattle.arrays.specs.Records.{network_at, SheetHeld}
use Rattle.arrays.specs.declared.Layout.{Layout}
use Rattle.read_sheet.proofs.NetworkLaws.{network_at-links}
use Rattle.search_sheet.specs.Reported.{ReportedSays}
use Rattle.search_sheet.specs.declared.Reported.{Reported}
use Rattle.thickness.specs.Thickness.{most_weight, weight_with}
use Rattle.thickness.specs.ThicknessTold.{thickness_of, figure_left, ThicknessTold}
use Rattle.thickness.proofs.ThicknessLaws.{weight_with_slow}
use Rattle.thickness.proofs.ToldLaws.{thickness_of-outside, thickness_of-without, thickness_of-above, thickness_of-within, thickness_reading-refused, thickness_reading-accepted, thickness_told}
use Rattle.op_thickness.specs.Figures.{FigureLeft}
use Rattle.op_thickness.proofs.NetworkLaws.{network_at-set, held-set}

left : {r q : Reading ℕ} {x n : ℕ} → r ≡ q → n ≡ number_of q → x ≡ figure_left q → FigureLeft r x n
left e p z = record { number = p ∙ sym (ap number_of e); figure_is = z ∙ sym (ap figure_left e) }

module _ {s : Bytes} {ends : List (List ℕ)} {ws : List ℕ} {l : Layout} (h : SheetHeld current s ends ws l) (k wanted : ℕ) where
  abbrev net : Network
  net = network_at s ends ws l

  pub outside : l.links ≤ k → FigureLeft (thickness_of current k wanted net []) 0 18
  outside l = left (thickness_of-outside current k wanted net [] (rw (network_at-links h) l)) refl refl

  module _ (inside : k < l.links) where
    is_link : k < link_count net
    is_link = rw (network_at-links h) inside

    pub room : k < most_links
    room = let m = h.few_links in omega arith

    pub low_held : SheetHeld current s ends (set ws k 0) l
    low_held = held-set h k 0 inside (omega arith)

    pub high_held : SheetHeld current s ends (set (set ws k 0) k most_weight) l
    high_held = rw (set-set ws k 0 most_weight) (held-set h k most_weight inside (omega arith))

    weight-low : {low : Reported} → ReportedSays low (reported fewer_nodes (network_at s ends (set ws k 0) l)) → low.found.weight ≡ weight_with fewer_nodes net k 0
    weight-low w = w.says.weight ∙ ap (λ (m : Network). (reported fewer_nodes m).weight) (network_at-set h k 0 inside)

    weight-high : {high : Reported} → ReportedSays high (reported fewer_nodes (network_at s ends (set (set ws k 0) k most_weight) l)) → high.found.weight ≡ weight_with fewer_nodes net k most_weight
    weight-high w =
        w.says.weight ∙ ap (λ (vs : List ℕ). (reported fewer_nodes (network_at s ends vs l)).weight) (set-set ws k 0 most_weight)
        ∙ ap (λ (m : Network). (reported fewer_nodes m).weight) (network_at-set h k most_weight inside)

    module _ {low : Reported} (at-0 : ReportedSays low (reported fewer_nodes (network_at s ends (set ws k 0) l))) where
      pub enough : wanted ≤ low.found.weight → FigureLeft (thickness_of current k wanted net []) 0 0
      enough l = left (thickness_of-without current k wanted net [] is_link h.accepted.sound (let e = weight-low at-0 in omega arith)) refl refl

      module _ {high : Reported} (at_most : ReportedSays high (reported fewer_nodes (network_at s ends (set (set ws k 0) k most_weight) l))) where
        pub beyond : high.found.weight < wanted → FigureLeft (thickness_of current k wanted net []) 0 20
        beyond l = left (thickness_of-above current k wanted net [] is_link (let e = weight-high at_most in omega arith)) refl refl

        pub within : wanted ≤ high.found.weight → FigureLeft (thickness_of current k wanted net []) (wanted - low.found.weight) 0
        within l =
            left (thickness_of-within current k wanted net [] is_link (let e = weight-high at_most in omega arith)) refl (ap (λ (w : ℕ). wanted - w) (weight-low at-0))

        -- the figure has four bytes
        pub fits : wanted ≤ high.found.weight → wanted - low.found.weight < 4_294_967_296
        fits l =
            let a = weight_with_slow fewer_nodes net h.accepted.sound k is_link most_weight in
            let e = weight-high at_most in
            let g = weight-low at-0 in
            omega arith

-- ---- of a sheet

module _ (sheet : Bytes) (k wanted : ℕ) where
  pub sheet-refused : (n : ℕ) → decode current sheet ≡ refused n → ThicknessTold current sheet k wanted 0 n
  sheet-refused n e =
      let r = thickness_reading-refused current sheet k wanted n e in
      thickness_told current sheet k wanted (sym (ap number_of r)) (sym (ap figure_left r))

  pub sheet-read : (net : Network) → decode current sheet ≡ accepted net [] → {x n : ℕ} → FigureLeft (thickness_of current k wanted net []) x n
      → ThicknessTold current sheet k wanted x n
  sheet-read net e w =
      let r = sym (thickness_reading-accepted current sheet k wanted net [] e) in
      thickness_told current sheet k wanted (w.number ∙ ap number_of r) (w.figure_is ∙ ap figure_left r)
