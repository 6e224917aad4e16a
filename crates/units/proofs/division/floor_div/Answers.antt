use Rattle.std.proofs.Common.{◌≡◌, ℤ, pos, ◌+ℤ◌, ◌*ℤ◌, ◌≤ℤ◌, ◌<ℤ◌, Some, sym, ap, ◌∙◌, subst, w64, SFits, to_z, of_z, rules}
use Rattle.std.proofs.lemmas.Int.{to_z-of_z}
use Rattle.std.specs.Int.{int_div_euclid}
use Rattle.units.proofs.Quotients.{value, low, high}
use Rattle.units.proofs.division.floor_div.Goals as goal

pub returns-then-d-gt0 : goal.returns-then-d-gt0
returns-then-d-gt0 c =
    let n = c.args.n in
    let d = c.args.d in
    let above : pos 0 <ℤ d = search rules in
    let fits_n : SFits w64 n = c.ranges.n in
    let fits_d : SFits w64 d = c.ranges.d in
    let fits_q : SFits w64 c.div_euclid.result = search rules in
    let told : c.div_euclid.result ≡ int_div_euclid n d = simp to_z-of_z at c.div_euclid.ensures in
    let is : to_z w64 (of_z w64 c.div_euclid.result) ≡ int_div_euclid n d = to_z-of_z w64 c.div_euclid.result fits_q ∙ told in
    record {
      value = ap Some is ∙ value n d above;
      low = subst (λ (q : ℤ). (d *ℤ q) ≤ℤ n) (sym is) (low n d above);
      high = subst (λ (q : ℤ). n <ℤ (d *ℤ (q +ℤ pos 1))) (sym is) (high n d above);
    }
