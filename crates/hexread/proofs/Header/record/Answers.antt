-- `hexread::Header::record` meets its contract. Assumes nothing.
use Rattle.std.proofs.Common.{◌≡◌, sym, ap, ◌∙◌, rules}
use Rattle.intelhex.specs.Records.{kind}
use Rattle.hexread.specs.declared.Header.{Header}
use Rattle.hexread.specs.declared.Kind.TheVariants.{Upper}
use Rattle.hexread.specs.Bytes.{byte_is, kind_of}
use Rattle.hexread.proofs.Header.record.Goals as goal

pub returns-in-Upper : goal.returns-in-Upper
returns-in-Upper c =
    let l = c.args.line.now in
    let upper : kind_of (kind l) ≡ Upper = sym (ap (λ (h : Header). h.kind) c.requires.header) ∙ c.in-Upper.is in
    let high = byte_is l 4 (search rules) in
    let low = byte_is l 5 (search rules) in
    rw (upper, c.from.ensures, c.from-in-Upper.ensures, c.byte_at.ensures, c.byte_at-in-Upper.ensures, high, low)
