-- `buffer::zero_after` meets its contract: the words are 0 where their join by `or` is.
use Rattle.std.proofs.Common.{ℕ, ◌≡◌, ◌-◌, min, sym, ap, ◌∙◌, bit_or, drop, take, length, rules}
use Rattle.std.proofs.lemmas.List.{take_rest}
use Rattle.std.specs.Prelude.{fold}
use Rattle.buffer.proofs.Zero.{joined}
use Rattle.buffer.proofs.zero_after.Goals as goal

pub returns : goal.returns
returns c =
    let l : length c.args.words ≡ 32 = search rules in
    let k : c.min.result ≡ min c.args.n (length c.args.words) = rw (c.min.ensures, l) in
    let rest : c.iter.result.rest.now ≡ drop c.min.result c.args.words = c.iter.ensures.rest ∙ ap (λ (m : ℕ). take (m - c.min.result) (drop c.min.result c.args.words)) (sym l) ∙ take_rest c.args.words c.min.result in
    let e : c.fold.result ≡ fold bit_or 0 c.iter.result.rest.now = search rules in
    rw (e, rest, k) (joined c.args.n c.args.words)
