use Rattle.std.proofs.Common.{vec_items, arith}
use Rattle.hex_text.proofs.Written.{two_digits}
use Rattle.hex_text.proofs.append.append_digits.Goals as goal

pub returns : goal.returns
returns c =
    record {
      items = two_digits (vec_items c.args.out.now) (vec_items c.append_byte.new.out) (vec_items c.append_byte-2.new.out) c.args.byte c.hex_digit.result c.hex_digit-2.result c.hex_digit.ensures c.hex_digit-2.ensures c.append_byte.ensures.items c.append_byte-2.ensures.items;
      len = omega arith;
      room = omega arith;
    }
